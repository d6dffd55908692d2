pub mod ByteLemmas
mod Choices
mod CommandLines
pub mod CutsAlone
mod KnownLemmas
mod LineLemmas
mod LinesReadLemmas
pub mod ResultLemmas
pub mod RoundNumbers
pub mod Samples
mod SipLemmas
mod SizeFigures
mod SortedSets
pub mod TakenRequests
pub mod Texts
mod TimeFigures

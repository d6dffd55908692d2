pub mod CalendarLemmas
mod ColumnLemmas
mod CutLemmas
pub mod DateLaws
pub mod DayLemmas
pub mod DecimalLemmas
mod LineLemmas
pub mod ShapeLemmas
mod WindowLemmas

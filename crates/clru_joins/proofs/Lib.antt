pub mod FirstsJoined
pub mod JoinedTexts

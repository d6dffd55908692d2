mod Below
mod Floored
mod Marked
mod MissRows
mod Objects
mod OneSize

mod Faults
mod Lines
mod Texts

pub mod Names
mod Remembered
mod Judged

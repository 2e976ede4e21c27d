pub mod Names
mod Passes
mod Firsts
mod Numbers
mod Ready
mod Counted
mod Taken
mod Waiting
mod Resting

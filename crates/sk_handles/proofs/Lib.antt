pub mod Names
mod Shown
mod Read
mod Given
mod ToldAt

pub mod Names
mod Read

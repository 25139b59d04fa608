pub mod Passing
mod NodeLaws

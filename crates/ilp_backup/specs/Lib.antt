pub mod Moment

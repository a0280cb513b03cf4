pub mod Layout
pub mod Playing
pub mod Shown

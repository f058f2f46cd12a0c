mod Keys
mod Places
mod Found
mod Longest
pub mod OneRoute
pub mod RoutedPeer

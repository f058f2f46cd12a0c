mod Found
mod KeptKeys
mod PeerLines

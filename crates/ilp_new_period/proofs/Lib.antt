mod NamedPeers

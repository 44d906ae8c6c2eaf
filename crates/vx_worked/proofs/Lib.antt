mod Bytes
mod Edges
mod Reacting

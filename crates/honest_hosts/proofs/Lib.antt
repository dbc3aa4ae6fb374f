mod Orders
mod Reached
mod Pieces

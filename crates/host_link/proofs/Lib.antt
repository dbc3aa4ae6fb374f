pub mod Answered
mod Agreement
mod Idle
mod LinkLists
mod Replies
mod RequestLists

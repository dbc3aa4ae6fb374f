mod Planned
mod Refused

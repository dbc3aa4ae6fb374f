mod Found
mod Reading
mod Unique

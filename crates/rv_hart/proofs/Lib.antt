mod Calls
mod Forms
mod InPage
mod Prefixes
mod Refusals

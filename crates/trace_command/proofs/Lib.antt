mod Lacking
mod Reaching
mod Outlets
mod Turned
mod Noted
mod ByWords
mod Replayed
mod Threaded

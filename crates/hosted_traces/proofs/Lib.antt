mod Hosted
mod Plans

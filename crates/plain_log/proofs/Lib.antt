pub mod Hexadecimal
mod Printed

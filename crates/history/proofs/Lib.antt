mod Structs

mod Bases
mod Casting
mod Acted

mod Blanks
mod Rowed

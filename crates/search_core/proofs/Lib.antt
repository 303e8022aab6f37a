mod Starting
mod Keeping
mod WorkedThreePoints

mod Faults
mod Runs
mod Calls
mod Smooth

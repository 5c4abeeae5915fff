mod ArgumentFaults
mod Scaling

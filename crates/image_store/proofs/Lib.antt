mod Entries
mod Putting
mod Taking

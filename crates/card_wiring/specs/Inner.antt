pub mod Wires
pub mod Wired

pub mod Results
pub mod Refusing
pub mod Demands

pub mod Tops
pub mod Joining

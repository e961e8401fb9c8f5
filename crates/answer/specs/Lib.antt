pub mod Printed
pub mod Laws

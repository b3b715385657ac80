pub mod Printed
pub mod Words
pub mod inner

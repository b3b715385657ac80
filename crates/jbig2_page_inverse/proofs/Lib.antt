pub mod PageFileInverse
pub mod PageInverse
mod PageWorked

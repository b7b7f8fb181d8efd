pub mod Good
mod CardTable

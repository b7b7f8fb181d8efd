mod Potential
mod Orders
mod Tables

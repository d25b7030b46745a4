mod Escaping
mod InOrder
mod Keys
mod Methods
mod Plain
mod Whole
mod Listed

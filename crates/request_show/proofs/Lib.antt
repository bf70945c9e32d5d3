mod Behind
mod Bodies
mod Rows
mod Texts
mod Walking

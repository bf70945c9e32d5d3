mod FaultLists
mod Slashes
mod Told
mod FaultRows
mod AddressRows
mod TextRows

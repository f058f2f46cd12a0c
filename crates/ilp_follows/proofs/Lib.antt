mod ToldLines
mod Standing
mod Named
mod OwnKey
mod Brought
mod Refusing

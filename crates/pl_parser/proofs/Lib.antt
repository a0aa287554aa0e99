mod Another
mod Declared
mod Arms
mod Refusing
mod Least
mod One
mod First

mod Braces

mod Shallow

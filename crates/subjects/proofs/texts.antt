mod Parsing

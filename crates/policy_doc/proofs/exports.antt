mod Admitting

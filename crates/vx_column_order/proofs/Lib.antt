mod Smaller

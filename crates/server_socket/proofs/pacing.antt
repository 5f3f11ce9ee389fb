mod Paced

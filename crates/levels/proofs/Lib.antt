mod Longer

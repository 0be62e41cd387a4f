mod Denials

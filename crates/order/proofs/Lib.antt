mod FirstBits
mod Places
mod Values

mod StandIn
mod Sizes
mod Ranges
mod Made

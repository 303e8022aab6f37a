-- worked problems meet the premises of the laws
mod ThreePoints
mod TieFree
mod AllMixed
mod OneSupport
mod LonePoint
mod TwoPoints

-- lattices, powers and commutators
pub mod Lattices
pub mod Powers
pub mod CommutatorProducts
-- Fox vectors and the module, with exponents in a lattice
pub mod LatticeFox
pub mod LatticeModule
pub mod Tuples
-- the first half: moves change a Fox vector by an element of the module
pub mod FirstHalf
-- from tuples to monomials, and back
pub mod Monomials
pub mod Writing
pub mod Members
pub mod UnitBinomials
pub mod Upward
pub mod Downward
-- the second half: words whose Fox vectors are congruent are equal
pub mod RelatorLattice
pub mod Representatives
pub mod Boundary
pub mod PathWords
pub mod SecondHalf
-- what follows: the theorem, homomorphisms, the rules of the calculus
pub mod Theorem
pub mod Homomorphisms
pub mod ImagesInModule
pub mod FoxRules

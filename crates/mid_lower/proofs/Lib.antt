mod Grows
mod Under
mod Lives
mod Words
mod Flagged
mod Trees
mod Chosen
mod Fits
mod Following
mod Giving
mod Room
mod Instructions
mod Storing
mod Values
mod Choices
pub mod Arguments
mod Calling
pub mod CallForms
pub mod ArgumentForms
mod OperatorForms
mod PlaceForms
mod EveryExpression
mod CellLoops
mod FillParts
mod Filling
mod Outcomes
mod Locals
mod LoopForms
mod SwitchForms
mod EveryStatement
mod EveryBound
mod PlainPrograms
mod RunsKept
pub mod StructureValues
pub mod Taken
pub mod Structures
pub mod StructureUses
pub mod StructureMembers
pub mod StructureFills
pub mod Operands
pub mod ResultTypes
pub mod SoundExpressions
pub mod SoundInitialisers
pub mod FixedGlobals
pub mod SoundPrograms
pub mod SoundRuns
pub mod Temporaries
pub mod Nesting
pub mod NestingStatements
pub mod Tallies
pub mod QuietForms
pub mod LooplessExpressions
pub mod CallsOfExpressions
pub mod QuietParts
pub mod CallsOfStatements
pub mod LooplessStatements
pub mod StaysStraight
pub mod Onto
pub mod Counted
pub mod ProgramsListed
pub mod Kept
pub mod KeptExpressions
pub mod KeptStatements
pub mod InRange
pub mod StartKept
pub mod IsMidCode
pub mod Finished
pub mod LocalWords
pub mod TogetherPaths
pub mod TogetherExpressions
pub mod TogetherInitialisers
pub mod TogetherWays
pub mod TogetherPoints
pub mod Together
pub mod Weights
pub mod WeighedExpressions
pub mod WeighedStatements
pub mod LoweredParts

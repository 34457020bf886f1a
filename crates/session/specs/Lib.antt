pub mod CodeSideAndLog
pub mod CodeTurn
pub mod Work
pub mod CodeSight
pub mod CodePort
pub mod CodeObserved
pub mod CodeLookahead
pub mod CodeSpecRun

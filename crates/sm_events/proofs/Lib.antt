mod Answering
mod PoliciesFit
mod Ruled
mod Destinations
mod RelatingAnswers
mod RelationsFit
mod RelatingDecided
mod Listed

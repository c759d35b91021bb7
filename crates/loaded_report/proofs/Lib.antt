mod TrueAnswers
mod Legality

mod Lists
mod Written
